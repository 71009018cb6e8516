pub mod StoredSize
pub mod Copies
pub mod Echoes
pub mod Lifting
pub mod SoundDevices
