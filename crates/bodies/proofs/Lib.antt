pub mod WeighCode
