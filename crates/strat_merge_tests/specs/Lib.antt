pub mod ListRuns
