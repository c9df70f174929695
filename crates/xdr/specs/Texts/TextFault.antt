use Rattle.std.specs.Prelude.{Bool, true, false}
use Rattle.xdr.specs.declared.texts.text.TextFault.{TextFault}
use Rattle.xdr.specs.declared.texts.text.TextFault.TheVariants.{NoMemory, NotAText}

-- whether an error says that the bytes are no text
abbrev pub is_no_text : TextFault → Bool
is_no_text NoMemory = false
is_no_text NotAText = true
