pub mod FrameLaws
pub mod SoundFrames
pub mod FramesTest
