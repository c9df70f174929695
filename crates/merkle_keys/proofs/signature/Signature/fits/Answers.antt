use Rattle.merkle_keys.proofs.signature.Signature.fits.Goals as goal

-- the texts have their size, and the rest fits
pub returns : goal.returns
returns c =
    let whole = c.rest_fits.ensures _ _ c.have_sizes.ensures.shown c.have_sizes.ensures.other in
    rw (← c.self.view_is) (rw c.deref.ensures.value at whole)
