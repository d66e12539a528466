mod Limits
mod Tries
