use Rattle.merkle_keys.proofs.SignatureTexts.{parts_fit}
use Rattle.merkle_keys.proofs.text.rest_fits.Goals as goal

-- the parts have a text
pub returns : goal.returns
returns c = λ shown other a b. parts_fit _ shown other _ c.ranges.leaf.fits a b c.requires c.told-path
