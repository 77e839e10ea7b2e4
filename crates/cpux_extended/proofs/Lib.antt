pub mod StackRuns
