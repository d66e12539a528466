mod Lines
mod Passwords
