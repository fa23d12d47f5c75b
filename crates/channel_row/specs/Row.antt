-- The channel during a run: the device buffer registers of reader and typewriter, the characters that are left, and the typing buffer with the number
-- of bytes typed.
-- Assumes nothing.
use Rattle.std.specs.Prelude.{◌≡◌, take, drop}
use Rattle.definition_instructions.specs.Machine as definition
use Rattle.channel_row.specs.declared.Channel.{Channel}

-- the channel that it stands for
unfoldable pub channel_at : Channel → definition.Channel
channel_at h =
    record { reader = h.reader; typewriter = h.typewriter; characters = h.characters.now; typed = take h.typed h.typing.now; space = drop h.typed h.typing.now }

-- the typing buffer is the one that was lent
abbrev pub Same : Channel → Channel → Type 0
Same g h = h.typing.ghost_name ≡ g.typing.ghost_name
