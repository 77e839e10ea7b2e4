pub mod FramLemmas
pub mod ImageLemmas
pub mod SegmentLemmas
pub mod TableLemmas
