pub mod RefusalLemmas
mod Worked
