pub mod BookTrials
