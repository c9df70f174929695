use Rattle.merkle_keys.proofs.SignatureTexts.{parts_fit}
use Rattle.merkle_keys.proofs.text.add_fields.Goals as goal

pub returns-in_err-put_u32-clause-fits : goal.returns-in_err-put_u32-clause-fits
returns-in_err-put_u32-clause-fits c =
    parts_fit _ _ _ _ c.ranges.leaf.fits c.requires.shown c.requires.other c.requires.path c.told-path

pub returns-in_err-put_fixed-clause-fits : goal.returns-in_err-put_fixed-clause-fits
returns-in_err-put_fixed-clause-fits c =
    parts_fit _ _ _ _ c.ranges.leaf.fits c.requires.shown c.requires.other c.requires.path c.told-path

pub returns-in_err-put_fixed-2-clause-fits : goal.returns-in_err-put_fixed-2-clause-fits
returns-in_err-put_fixed-2-clause-fits c =
    parts_fit _ _ _ _ c.ranges.leaf.fits c.requires.shown c.requires.other c.requires.path c.told-path

pub returns-clause-fits : goal.returns-clause-fits
returns-clause-fits c =
    parts_fit _ _ _ _ c.ranges.leaf.fits c.requires.shown c.requires.other c.requires.path c.told-path
