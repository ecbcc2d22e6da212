pub mod Overall
