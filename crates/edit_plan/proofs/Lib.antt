pub mod CutLemmas
pub mod SpotLemmas
pub mod SideContents
pub mod PlanLemmas
pub mod TightLemmas
pub mod EntryLemmas
pub mod WindowLemmas
pub mod ObjectLemmas
