-- What contracts see of the rows of a section.
use Rattle.mpf_sections.specs.declared.section.Content as contents
use Rattle.mpf_sections.specs.declared.section.Content.TheVariants as content
use Rattle.mpf_sections.specs.declared.section.Section.{Section}
use Rattle.setting_values.specs.View.{names_view}
use Rattle.section_tables.specs.View.{entry_view, entries_view, players_view}
use Rattle.mpf_sections.specs.Rows.{Content, entries, players, entry, name_list, SectionRows}

abbrev pub content_view : contents.Content → Content
content_view (content.Entries es) = entries (entries_view es)
content_view (content.Players ps) = players (players_view ps)
content_view (content.Entry e) = entry (entry_view e)
content_view (content.Names ws) = name_list (names_view ws)

abbrev pub section_view : Section → SectionRows
section_view s = record { name = s.name.items; content = content_view s.content }
