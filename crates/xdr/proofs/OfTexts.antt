-- Lemmas on texts that are read whole. Serves: `texts`.
pub mod WholeTexts
