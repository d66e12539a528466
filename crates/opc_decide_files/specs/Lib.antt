pub mod Answering
pub mod DecidingFiles
pub mod Replying
pub mod Told
