-- Lemmas on texts as records: one reading at most, and one always. Serves: `record_laws`.
pub mod OneRecord
pub mod OneList
pub mod OneReading
pub mod SomeReading
