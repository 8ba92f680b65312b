pub mod SixDigits
