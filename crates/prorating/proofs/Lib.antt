pub mod Puts
pub mod RuledOut
