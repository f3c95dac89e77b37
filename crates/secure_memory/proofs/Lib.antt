pub mod LineCalls
pub mod OtherLines
