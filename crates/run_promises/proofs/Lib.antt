pub mod RunCounts
pub mod CallLaws
pub mod ChannelLaws
pub mod CycleIsolates
pub mod TimedLaws
pub mod Promises
pub mod Several
