mod Bytes
mod TableLemmas
mod Layers
mod KeyWords
mod Sums
mod Boxes
mod Mixing
mod Undoing
mod InverseLayers
pub mod Laws
