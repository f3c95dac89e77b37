pub mod BusHistory
pub mod Access
pub mod Lies
pub mod HonestBus
pub mod FlipBus
pub mod FirstLie
