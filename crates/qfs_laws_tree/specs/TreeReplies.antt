-- What a file command is answered at the end of a history: what its tree says. Cited by the laws of
-- the metaserver and of puts and gets.
use Rattle.std.proofs.Common.{◌≡◌, cond, List, [], ◌∷◌, ◌++◌, map, length, find, Option, Some}
use Rattle.std.proofs.Common.{None, true, false, unwrap_or, refl, sym, ap, ◌∙◌}
use Rattle.std.proofs.Math.Seq.{take-length}
use Rattle.std.proofs.lemmas.List.{take_at}
use Rattle.std.specs.Option.{option_map, option_map_or}
use Rattle.qfs_base.specs.FileReplies.{refused_or, bytes_of_content, bytes_at, wanted_bytes}
use Rattle.qfs_base.specs.FileReplies.{file_reply, reply_at}
use Rattle.qfs_base.specs.Files.{Puts, FileEntry, entry_path, files_of}
use Rattle.qfs_base.specs.NameTree.{PathNames, stands_at, path_eq, add_refusal, rmdir_refusal}
use Rattle.qfs_base.specs.NameTree.{look_refusal, rename_refusal, directory_refusal, names_below}
use Rattle.qfs_base.specs.declared.command.FileCommand.{FileCommand}
use Rattle.qfs_base.specs.declared.command.FileCommand.TheVariants as To
use Rattle.qfs_base.specs.declared.command.Range.{Range}
use Rattle.qfs_base.specs.declared.history.Entry.{Entry}
use Rattle.qfs_base.specs.declared.history.FileReply.{FileReply}
use Rattle.qfs_base.specs.declared.history.FileReply.TheVariants as File
use Rattle.qfs_base.specs.declared.image.MetaImage.{MetaImage}
use Rattle.qfs_base.specs.declared.image.TreeRow.{TreeRow}
use Rattle.qfs_base.specs.declared.lists.NameKind.TheVariants as Is
use Rattle.qfs_base.specs.declared.reply.TreeRefusal.{TreeRefusal}
use Rattle.qfs_model_meta.specs.Sound.{content_of, file_entry, TreeIsHistory}
use Rattle.qfs_model_meta.specs.TreeRows.{kind_of, standing, row_path, row_at, directory_row}
use Rattle.qfs_laws_tree.specs.Files.{closed-root}
use Rattle.qfs_laws_tree.specs.History.{standing-files}
use Rattle.qfs_laws_tree.specs.TreeFacts.{kind-row, look-closed}

-- what a file command answers of a tree
abbrev pub tree_reply : Puts → List TreeRow → FileCommand → FileReply
tree_reply puts tree (To.Mkdir path) = refused_or File.Done (add_refusal (standing tree) path)
tree_reply puts tree (To.Rmdir path) = refused_or File.Done (rmdir_refusal (standing tree) path)
tree_reply puts tree (To.Remove path) = refused_or File.Done (look_refusal (standing tree) path)
tree_reply puts tree (To.Rename from to) =
    refused_or File.Done (rename_refusal (standing tree) from to)
tree_reply puts tree (To.List path) =
    refused_or (File.Names (names_below (standing tree) path))
    (directory_refusal (standing tree) path)
tree_reply puts tree (To.Put path recipe) =
    refused_or File.Accepted (add_refusal (standing tree) path)
tree_reply puts tree (To.Get path range) =
    refused_or (File.Read (wanted_bytes (puts (row_at tree path).actor (row_at tree path).command)
    range))
    (look_refusal (standing tree) path)

-- the law: where the tree is that of the history, a command's reply at its end is what the tree
-- says, however the history goes on behind it
abbrev pub TreeBearsReplies : Type 0
TreeBearsReplies =
    (puts : Puts) (m : MetaImage) (more : List Entry) (command : FileCommand) → TreeIsHistory m
    → reply_at puts (m.history ++ more) (length m.history) command ≡ tree_reply puts m.tree command

found-same : (puts : Puts) (tree : List TreeRow) (path : PathNames)
    → find (stands_at entry_path path) (map (file_entry puts) tree) ≡ option_map (file_entry puts)
    (find (stands_at row_path path) tree)
unfolding file_entry
found-same puts [] path = refl
found-same puts (row ∷ rows) path =
    elim (path_eq row.path path) as (λ b.
    cond b (Some (file_entry puts row))
    (find (stands_at entry_path path) (map (file_entry puts) rows)) ≡ option_map (file_entry puts)
    (cond b (Some row) (find (stands_at row_path path) rows)))
    [ true ↦ refl | false ↦ found-same puts rows path ]

closed-bytes : (puts : Puts) (row : TreeRow) → kind_of row.file row.closed ≡ Is.Closed
    → bytes_of_content (file_entry puts row).content ≡ puts row.actor row.command
unfolding bytes_of_content file_entry content_of
closed-bytes puts row closed = ap (λ kind. bytes_of_content (content_of puts row kind)) closed

get-bytes : (puts : Puts) (tree : List TreeRow) (path : PathNames)
    → look_refusal (standing tree) path ≡ None
    → bytes_at (map (file_entry puts) tree) path ≡ puts (row_at tree path).actor
    (row_at tree path).command
unfolding bytes_at row_at
get-bytes puts tree path looks =
    let k = kind-row tree path Is.Closed (closed-root tree path looks)
    (look-closed (standing tree) path looks) in
    let row : row_at tree path ≡ k.0 = ap (λ o. unwrap_or o (directory_row [])) k.1 in
    ap (λ o. option_map_or (λ (entry : FileEntry). bytes_of_content entry.content) o [])
    (found-same puts tree path ∙ ap (option_map (file_entry puts)) k.1)
    ∙ closed-bytes puts k.0 k.3
    ∙ ap (λ (r : TreeRow). puts r.actor r.command) (sym row)

get-replies : (puts : Puts) (tree : List TreeRow) (path : PathNames) (range : Option Range)
    (refusal : Option TreeRefusal)
    → look_refusal (standing tree) path ≡ refusal
    → refused_or (File.Read (wanted_bytes (bytes_at (map (file_entry puts) tree) path) range))
    refusal ≡ refused_or (File.Read
    (wanted_bytes (puts (row_at tree path).actor (row_at tree path).command) range)) refusal
unfolding refused_or
get-replies puts tree path range None looks =
    ap (λ bytes. File.Read (wanted_bytes bytes range)) (get-bytes puts tree path looks)
get-replies puts tree path range (Some why) looks = refl

tree-replies : (puts : Puts) (tree : List TreeRow) (command : FileCommand)
    → file_reply (map (file_entry puts) tree) command ≡ tree_reply puts tree command
unfolding file_reply
tree-replies puts tree (To.Mkdir path) =
    ap (λ t. refused_or File.Done (add_refusal t path)) (standing-files puts tree)
tree-replies puts tree (To.Rmdir path) =
    ap (λ t. refused_or File.Done (rmdir_refusal t path)) (standing-files puts tree)
tree-replies puts tree (To.Remove path) =
    ap (λ t. refused_or File.Done (look_refusal t path)) (standing-files puts tree)
tree-replies puts tree (To.Rename from to) =
    ap (λ t. refused_or File.Done (rename_refusal t from to)) (standing-files puts tree)
tree-replies puts tree (To.List path) =
    ap (λ t. refused_or (File.Names (names_below t path)) (directory_refusal t path))
    (standing-files puts tree)
tree-replies puts tree (To.Put path recipe) =
    ap (λ t. refused_or File.Accepted (add_refusal t path)) (standing-files puts tree)
tree-replies puts tree (To.Get path range) =
    ap (λ t. refused_or (File.Read (wanted_bytes (bytes_at (map (file_entry puts) tree) path)
    range)) (look_refusal t path)) (standing-files puts tree)
    ∙ get-replies puts tree path range (look_refusal (standing tree) path) refl

-- at the end of the history, where nothing stands behind it
pub reply-at-end : (puts : Puts) (m : MetaImage) (command : FileCommand) → TreeIsHistory m
    → reply_at puts m.history (length m.history) command ≡ tree_reply puts m.tree command
unfolding reply_at
reply-at-end puts m command tree =
    ap (λ files. file_reply files command)
    (ap (files_of puts) (take-length m.history) ∙ sym (tree.files puts))
    ∙ tree-replies puts m.tree command

pub tree-bears-replies : TreeBearsReplies
unfolding reply_at
tree-bears-replies puts m more command tree =
    ap (λ files. file_reply files command)
    (ap (files_of puts) (take_at m.history more (length m.history) refl) ∙ sym (tree.files puts))
    ∙ tree-replies puts m.tree command
