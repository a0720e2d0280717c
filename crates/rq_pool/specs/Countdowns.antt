-- Outboxes that come home one by one, and how many of an error queue's sources are still to come.
-- The rule of the table's words ties what a step sees to the history of all steps, so the arrival
-- that is answered Last has seen every other one. It is given all outboxes, each where its source
-- put it.
pub mod History
pub mod Arrivals
pub mod Words
pub mod Phases
pub mod Rule
