pub mod ByteRuns
