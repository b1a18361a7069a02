pub mod Records
pub mod Opening
pub mod SoundRecords
pub mod RegularRecords
