-- Formulas and tables: numbers of refusals, the calls that are meant, what the refusal table asks, the table, pots and figures.
pub mod Refusals
pub mod Meant
pub mod Seen
pub mod Table
pub mod Pots
pub mod Figures
-- Steps: what a month holds, what each call answers and leaves. They mirror the code.
pub mod Book
pub mod Steps
pub mod Answers
