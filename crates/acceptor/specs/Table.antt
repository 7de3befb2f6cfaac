-- The acceptor's part of the upper layer's state table (PS3.8 section 9.2.3, Table 9-10).
use Rattle.acceptor.specs.declared.state.State.{State}
use Rattle.acceptor.specs.declared.state.State.TheVariants.{Sta1, Sta2, Sta3, Sta6, Sta8, Sta13}
use Rattle.acceptor.specs.declared.event.Event.{Event}
use Rattle.acceptor.specs.declared.event.Event.TheVariants.{Connected, AcceptableRq, UnacceptableRq, Ac, Rj, Data, ReleaseRq, ReleaseRp, Abort, Invalid, Closed, Expired, UserAccepts, UserRefuses, UserReleases, UserAborts}
use Rattle.acceptor.specs.declared.action.Action.{Action}
use Rattle.acceptor.specs.declared.action.Action.TheVariants.{Nothing, Ae5, Ae6, Ae7, Ae8, Ar2, Ar4, Ar5, Aa1, Aa2, Aa3, Aa4, Aa5, Aa6, Aa7, Aa8, Dt2}

-- The action and the next state for an event in a state. That a pair outside the acceptor's part has no action and
-- keeps the state is this product's own profile. In Sta3 and Sta8 the local user responds before the next input is
-- read, so no PDU is received in them.
-- e.g. table Sta6 ReleaseRq ≡ (Ar2, Sta8); table Sta13 Data ≡ (Aa6, Sta13)
abbrev pub table : State → Event → Action × State
table Sta1 Connected = (Ae5, Sta2)
table Sta2 AcceptableRq = (Ae6, Sta3)
table Sta2 UnacceptableRq = (Ae6, Sta13)
table Sta2 Ac = (Aa1, Sta13)
table Sta2 Rj = (Aa1, Sta13)
table Sta2 Data = (Aa1, Sta13)
table Sta2 ReleaseRq = (Aa1, Sta13)
table Sta2 ReleaseRp = (Aa1, Sta13)
table Sta2 Invalid = (Aa1, Sta13)
table Sta2 Abort = (Aa2, Sta1)
table Sta2 Expired = (Aa2, Sta1)
table Sta2 Closed = (Aa5, Sta1)
table Sta3 UserAccepts = (Ae7, Sta6)
table Sta3 UserRefuses = (Ae8, Sta13)
table Sta6 Data = (Dt2, Sta6)
table Sta6 ReleaseRq = (Ar2, Sta8)
table Sta6 AcceptableRq = (Aa8, Sta13)
table Sta6 UnacceptableRq = (Aa8, Sta13)
table Sta6 Ac = (Aa8, Sta13)
table Sta6 Rj = (Aa8, Sta13)
table Sta6 ReleaseRp = (Aa8, Sta13)
table Sta6 Invalid = (Aa8, Sta13)
table Sta6 Abort = (Aa3, Sta1)
table Sta6 Closed = (Aa4, Sta1)
table Sta6 UserAborts = (Aa1, Sta13)
table Sta8 UserReleases = (Ar4, Sta13)
table Sta13 Ac = (Aa6, Sta13)
table Sta13 Rj = (Aa6, Sta13)
table Sta13 Data = (Aa6, Sta13)
table Sta13 ReleaseRq = (Aa6, Sta13)
table Sta13 ReleaseRp = (Aa6, Sta13)
table Sta13 AcceptableRq = (Aa7, Sta13)
table Sta13 UnacceptableRq = (Aa7, Sta13)
table Sta13 Invalid = (Aa7, Sta13)
table Sta13 Abort = (Aa2, Sta1)
table Sta13 Expired = (Aa2, Sta1)
table Sta13 Closed = (Ar5, Sta1)
table state event = (Nothing, state)
