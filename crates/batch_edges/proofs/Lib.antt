pub mod OtherDigits
