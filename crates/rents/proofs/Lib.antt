pub mod PriceLaws
pub mod RawLaws
