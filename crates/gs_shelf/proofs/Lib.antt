pub mod FileLaws
pub mod FailureLaws
pub mod HostLaws
pub mod TransferLaws
