pub mod PeersStayWithinLimit
pub mod FirstAdmittedGetsSlot
pub mod FirstNamedLeaves
pub mod VacantSlotsAreFreed
