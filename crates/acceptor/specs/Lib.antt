pub mod Table
pub mod Effect
pub mod TimerLaws
