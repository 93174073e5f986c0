pub mod ConsoleBytes
pub mod DiskCommands
pub mod RegisterTable
pub mod DeviceSet
pub mod RecordedInputs
