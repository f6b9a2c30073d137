pub mod OutFrames
