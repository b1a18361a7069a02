pub mod FiveHalves
