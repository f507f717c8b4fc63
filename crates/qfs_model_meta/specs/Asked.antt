-- What may be asked of a metaserver so that it stays sound: paths are paths, the numbers of actors and commands are in their
-- range, and a server tells only of copies that were granted to it. The actors of a script are meant to ask nothing else.
use Rattle.std.specs.Prelude.{ℕ, ⊤, ◌+◌, ◌<◌, ◌≤◌, length, IsTrue}
use Rattle.qfs_base.specs.Path.{IsPath}
use Rattle.qfs_base.specs.Sizes.{LAST_U16, LAST_U32}
use Rattle.qfs_base.specs.Table.{Each}
use Rattle.qfs_base.specs.declared.chunk.ChunkKey.{ChunkKey}
use Rattle.qfs_base.specs.declared.history.Outcome.{Outcome}
use Rattle.qfs_base.specs.declared.image.MetaImage.{MetaImage}
use Rattle.qfs_base.specs.declared.request.MetaRequest.{MetaRequest}
use Rattle.qfs_base.specs.declared.request.MetaRequest.TheVariants as Ask
use Rattle.qfs_base.specs.declared.rules.Rules.{Rules}
use Rattle.qfs_model_meta.specs.Grammar.{IsActor}
use Rattle.qfs_model_meta.specs.Past.{Past, was_granted, remember}
use Rattle.qfs_model_meta.specs.Sound.{IsSound}
use Rattle.qfs_model_meta.specs.Step.{meta_step}

-- a copy under this key was granted on a server in this life
abbrev pub WasGrantedOn : Past → ℕ → ℕ → ChunkKey → Type 0
WasGrantedOn past server life key =
    IsTrue (was_granted past.granted key.block key.slot (record { server = server; life = life; version = key.version }))

abbrev pub MayAsk : Past → MetaRequest → Type 0
MayAsk past (Ask.Mkdir path) = IsPath path
MayAsk past (Ask.Rename from to) = IsPath to
MayAsk past (Ask.Create path command len) = IsPath path × (command ≤ LAST_U16)
MayAsk past (Ask.Hello server life keys) = Each (WasGrantedOn past server life) keys
MayAsk past (Ask.Drop actor) = IsActor actor
MayAsk past request = ⊤

-- the law: a sound metaserver that is asked so is sound after its step, with what it told in it, as long
-- as it gave fewer grants than there are versions. It stands here as a statement
abbrev pub StaysSound : Type 0
StaysSound =
    (rules : Rules) (actor : ℕ) (request : MetaRequest) (outcome : Outcome) (past : Past) (m : MetaImage)
    → IsSound past m → length past.granted + 1 < LAST_U32 → IsActor actor → MayAsk past request
    → IsSound (remember actor past (meta_step rules actor request outcome m).reply) (meta_step rules actor request outcome m).meta
