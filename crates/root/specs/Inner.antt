pub mod Isqrt
