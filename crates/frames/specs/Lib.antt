pub mod Frames
pub mod Stand
pub mod SoundFrames
