-- Lemmas on the spellings of answers. Serves: `result_texts`.
pub mod AnswersRead
pub mod AnswersSaid
