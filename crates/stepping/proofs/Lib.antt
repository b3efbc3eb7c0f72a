pub mod MoveLaws
pub mod ScanLaws
pub mod StepLaws
