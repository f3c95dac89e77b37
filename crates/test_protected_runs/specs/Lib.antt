pub mod ReplayBus
