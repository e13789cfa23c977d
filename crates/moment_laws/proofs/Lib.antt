pub mod RoleLemmas
pub mod SumLemmas
pub mod ByObjectLemmas
pub mod ChangeLemmas
pub mod EndLemmas
pub mod GrantLemmas
