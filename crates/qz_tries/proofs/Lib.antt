pub mod MoreSteps
pub mod InteractiveSteps
pub mod AdaptiveSteps
pub mod AfterSteps
