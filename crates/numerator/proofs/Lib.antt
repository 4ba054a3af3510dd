pub mod ProductSteps
