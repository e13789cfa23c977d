mod RunLemmas
mod SumLemmas
mod TextLemmas
mod Worked
