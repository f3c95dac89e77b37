pub mod PrefixTagger
pub mod ReplayBus
