-- That a translation does what its circuit does, that it is fit, and what holds of every fit table.
-- Of what processes leave, whatever they mean:
pub mod Outcomes
pub mod Overlays
pub mod Threads
pub mod Changes
pub mod Orderly
pub mod Leasts
pub mod Sessions
pub mod Written
-- Of translations:
pub mod Tabulated
pub mod Translating
pub mod Faithful
pub mod Heights
pub mod Fitting
-- Of fit tables:
pub mod Running
pub mod Local
pub mod Obedient
pub mod Demand3
