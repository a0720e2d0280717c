use Rattle.std.proofs.lemmas.Str.{IsUtf8-from_ascii}
use Rattle.rq_record.proofs.NameText.{ascii_name}
use Rattle.rq_record.proofs.name.text_of.Goals as goal

pub from_utf8_unchecked-requires : goal.from_utf8_unchecked-requires
from_utf8_unchecked-requires c = IsUtf8-from_ascii _ (ascii_name _ c.requires)
