pub mod ValueEnds
