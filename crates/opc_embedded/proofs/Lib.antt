mod Arguments
mod Answering
mod Rooms
