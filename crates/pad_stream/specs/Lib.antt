pub mod Pad
pub mod PadEngine
pub mod Pads
pub mod PadBlocks
