-- An association stands as all its inputs say (`Stands`), and a run is its turns (`Ran`).
--
-- OneInputMore   from some inputs to one more (`Moved`)
-- OneTurnMore    from some turns to one more, and to a whole run
-- UnfailedRuns   good images in a whole run, and runs in which no device fails
pub mod OneInputMore
pub mod OneTurnMore
pub mod UnfailedRuns
